pub mod EqualTrust
pub mod TrustedFrames
pub mod TrustedRepeats
