pub mod ClassesCarry
pub mod TreesByClass
