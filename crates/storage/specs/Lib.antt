pub mod Agreed
pub mod Store
pub mod StoreKeeps
pub mod StorePromises
pub mod inner
