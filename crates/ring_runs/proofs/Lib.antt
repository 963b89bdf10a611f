mod Moving
mod Making
mod Acting
mod Leading
mod Agreeing
mod Running
mod Done
