pub mod lemmas
mod Answered
mod GateFacts
mod RuleFacts
mod Ready
mod Opening
