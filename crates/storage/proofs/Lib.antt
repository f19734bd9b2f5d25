pub mod Bytes
pub mod Searches
pub mod StoreExamples
pub mod StoreKept
pub mod StoreRecord
pub mod StoreSound
pub mod StoreUnique
pub mod Stored
