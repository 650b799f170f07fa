mod Accounts
pub mod Adding
pub mod AddingSeen
pub mod Apart
pub mod Ascending
mod Asides
mod Attributing
mod AttributesTree
pub mod BlockWants
mod Booking
pub mod Bytes
pub mod Counting
pub mod Dropped
pub mod Dropping
mod DroppingLink
mod Emptying
pub mod EntryWants
pub mod Fields
pub mod Files
mod Filling
pub mod Finishing
pub mod Fitting
pub mod Flat
mod Folders
pub mod HeaderWants
mod Heading
pub mod Hiding
mod HidingFile
mod InOrder
pub mod Keeping
mod Inline
pub mod Keyed
mod LinkValues
pub mod LinkWants
mod LinkingFirst
mod LinkingMore
mod LinkingNames
pub mod Lying
pub mod Making
mod Marking
pub mod Marks
pub mod Members
pub mod Moding
pub mod Moments
mod Moving
mod MovingHidden
mod MovingOver
mod MovingSeen
pub mod Named
mod NextReclaim
mod DropSteps
pub mod NodesOf
mod Opening
mod Ordering
mod Owning
mod Pathways
mod PlainBytes
mod Plainly
mod Ranks
pub mod Reaching
pub mod RecordExtents
pub mod Refielding
pub mod Removing
mod RemovingFile
mod RemovingLastLink
mod RemovingLink
mod RemovingNames
pub mod Renaming
pub mod Reparenting
pub mod Repeats
pub mod Rereading
pub mod Sectors
pub mod Seeing
mod Shaping
pub mod Sharing
pub mod Sides
pub mod Sounding
mod Steadying
pub mod Swapping
pub mod Telling
mod TheLaws
pub mod Threading
pub mod TreeSounding
pub mod TreeUnbroken
pub mod TreeWants
mod Trees
pub mod Untouched
pub mod Vacating
pub mod PutValues
pub mod FoundValue
mod SettingFork
pub mod ValueTrades
pub mod Valued
pub mod Wants
pub mod Whole
mod Reclaiming
mod WorkedChanges
mod WorkedNames
mod WorkedCosts
mod WorkedSound
mod WorkedTrees
pub mod WorkedVolumes
mod BlockCounts
mod BlockForks
mod BlockLaw
mod BlockRecords
mod BlockSound
mod BlockTree
mod GrowKeep
mod GrowLaw
mod TruncCut
mod WritBytes
mod WritForks
mod WritLaw
mod Resources
mod Symlinks
mod WritRows
