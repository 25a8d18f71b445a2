pub mod FewLemmas
