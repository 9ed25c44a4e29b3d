pub mod LighterTurns
pub mod FewEvents
