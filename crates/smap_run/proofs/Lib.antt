pub mod Texts
pub mod Maps
pub mod Places
pub mod Pieces
pub mod PlanAnswers
pub mod PortErrors
