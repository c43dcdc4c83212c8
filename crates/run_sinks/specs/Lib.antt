pub mod NotedSlots
