-- That an answer in numbers says what the codec's answer says.
pub mod Replying
