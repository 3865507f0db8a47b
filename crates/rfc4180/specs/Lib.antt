-- What texts of comma-separated values are: records as RFC 4180 has them, numbers in plain decimal, what is read of either, and how they are written.
pub mod Bytes
pub mod Grammar
pub mod Records
pub mod Decimal
pub mod Numbers
pub mod Digits
pub mod Writing
pub mod Laid
