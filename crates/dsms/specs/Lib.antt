pub mod Agreed
pub mod Dsm
pub mod DsmHistory
pub mod DsmPromises
pub mod DsmRecovery
pub mod DsmView
pub mod inner
