pub mod PageCases
pub mod WrongCandidates
