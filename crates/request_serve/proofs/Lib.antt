mod Copied
mod ReadingLaws
mod SettleLaws
mod Stores
mod WritingLaws
