mod TwoLines
mod EntryLaws
