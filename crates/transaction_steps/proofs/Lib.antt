pub mod EnoughBlocks
pub mod WhatFits
pub mod FramesLeft
pub mod GoingOn
