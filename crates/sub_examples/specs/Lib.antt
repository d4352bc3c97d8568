pub mod Examples
pub mod ScreenExamples
pub mod TrustedExamples
