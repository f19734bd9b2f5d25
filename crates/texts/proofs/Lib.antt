pub mod Decimals
pub mod Hexadecimals
pub mod PutTexts
pub mod ReadArguments
pub mod TextUnique
pub mod Written
