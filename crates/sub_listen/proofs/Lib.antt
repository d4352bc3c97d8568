pub mod ReceptionLemmas
pub mod RunningLemmas
pub mod ListenResultLemmas
