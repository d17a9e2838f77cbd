mod Depths
mod Steps
mod Terminals
mod AttributesRead
mod TypesRead
mod Sizes
mod ExpressionsRead
mod Complete
mod Sound
pub mod DeclarationsRead
mod NamesRead
mod RecordsRead
mod StatementDepths
mod Keywords
mod OpenIfs
mod StatementsRead
mod FilesRead
mod Unique
mod DeclarationsSound
mod StatementsSound
mod FilesSound
pub mod Kept
pub mod DeclarationsKept
pub mod StatementsKept
