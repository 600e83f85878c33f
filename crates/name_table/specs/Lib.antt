-- The definitions that the contracts cite. `Parts` is the page to read first.
pub mod Parts
pub mod Positions
pub mod Faults
pub mod ReadOn
pub mod Reads
pub mod Steps
pub mod Laws
pub use Parts.*
pub use Positions.*
pub use Faults.*
pub use ReadOn.*
pub use Reads.*
pub use Steps.*
pub use Laws.*
pub use Rattle.name_table.specs.declared.number.TheConstants.{MOST_BYTES, NUMBER_LIMIT}
pub use Rattle.name_table.specs.declared.error.NameFault.{NameFault}
pub use Rattle.name_table.specs.declared.error.NameFault.TheVariants.{Truncated, NotUtf8, NumberTooLarge}
pub use Rattle.name_table.specs.declared.error.NameWriteFault.{NameWriteFault}
