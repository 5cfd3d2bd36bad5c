mod CutApart
mod OneAnswer
mod TextsApart
mod TwoModels
mod WhatIsRefused
pub mod SteadyDevices
