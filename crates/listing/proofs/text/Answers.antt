use Rattle.std.proofs.Common.{rules}
use Rattle.std.proofs.iter.runs.Made.{chains}
use Rattle.listing.proofs.Spelling.{text_bytes}
use Rattle.listing.proofs.text.Goals as goal

pub returns : goal.returns
returns c = search (rules, chains, text_bytes)
