-- How a call's answer follows from what is read and what is written.
pub mod Ends
pub mod RawAnswers
pub mod AskedAnswers
pub mod TurnedBack
pub mod OneAnswer
pub mod OneTie
