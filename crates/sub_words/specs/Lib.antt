pub mod Help
pub mod Version
pub mod Commands
pub mod Texts
pub mod PesTexts
pub mod Arguments
pub mod Requests
pub mod Laws
