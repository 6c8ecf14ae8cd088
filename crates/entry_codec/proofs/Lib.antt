mod Outside
mod Lists
mod Whole
mod Again
mod Exact
