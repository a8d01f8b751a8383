pub mod PrintText
pub mod PrintForm
