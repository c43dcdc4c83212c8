mod FirstCells
mod Latest
mod Unicast
mod Soon
