use Rattle.hfs_language.proofs.Listings.{listing_shown}
use Rattle.hfs_language.proofs.laws.listing_is_shown.Goals as goal

pub returns : goal.returns
returns c = listing_shown c.args.one.now c.args.other.now
