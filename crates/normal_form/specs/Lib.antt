pub mod Normal
pub mod OneForm
