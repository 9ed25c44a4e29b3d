pub mod PlainVars
pub mod PlainBlocks
pub mod Places
pub mod GraphViews
pub mod GraphText
pub mod GraphFits
pub mod EventsFit
