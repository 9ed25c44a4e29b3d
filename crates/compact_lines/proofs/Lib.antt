mod WordSpans
mod EscapeSpans
mod LexedSizes
mod NumberSizes
mod ReadSizes
mod ArgumentSizes
mod MemberSizes
mod RequestSizes
