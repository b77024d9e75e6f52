-- What the contracts of this program cite.
pub mod Columns
pub mod Decimal
