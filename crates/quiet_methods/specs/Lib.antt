pub mod MarksKeepWithin
