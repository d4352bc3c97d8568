-- A text whose length is not three bytes is no page number.
use Rattle.std.proofs.Common.{◌≡◌, ◌≢◌, ℕ, List, length, None, arith}
use Rattle.std.proofs.lemmas.Bool.Decides.{nat_tests}
use Rattle.ttx_packet.specs.PageId.{page_of_text}

pub page_of_text-other_length : (text : List ℕ) → length text ≢ 3 → page_of_text text ≡ None
unfolding page_of_text
page_of_text-other_length text other = grind (arith, nat_tests)
