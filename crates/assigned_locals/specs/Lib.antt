pub mod AssignedLocals
