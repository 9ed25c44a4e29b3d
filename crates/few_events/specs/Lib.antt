pub mod FewEvents
