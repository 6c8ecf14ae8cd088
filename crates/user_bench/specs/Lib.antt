pub mod Out
