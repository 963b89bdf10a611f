pub mod Bounds
pub mod Decimal
pub mod ExamplesHold
pub mod Found
