pub mod RestartedAnswer
pub mod RestartedKept
pub mod HeldApart
pub mod Lost
pub mod JobsBack
pub mod GivenBack
