use Rattle.mt_rows.proofs.Listings.{listing_prop}
use Rattle.mt_rows.proofs.laws.listings_are_one.Goals as goal

pub returns : goal.returns
returns c = listing_prop
