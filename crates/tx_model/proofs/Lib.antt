pub mod AfterWords
pub mod ExamplesFacts
pub mod lemmas
pub mod PassFacts
pub mod PutLaws
pub mod RuleFacts
pub mod ShareLaws
pub mod ShareNames
