pub mod RegistryLemmas
