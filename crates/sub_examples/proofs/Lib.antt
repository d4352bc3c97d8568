pub mod ExampleLemmas
pub mod GoodExample
pub mod NotRobustExamples
pub mod RobustTests
pub mod ScreenTests
pub mod CleanFramesExample
pub mod TrustedFramesExample
