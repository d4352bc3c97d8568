-- If n valid PES packets are consumed, and then one more, n + 1 valid PES packets are consumed.
use Rattle.std.proofs.Common.{◌≡◌, ℕ, ◌+◌, List, [], ◌∷◌, ◌++◌, Option, arith, length-append}
use Rattle.std.proofs.lemmas.Bool.Decides.{nat_tests}
use Rattle.std.proofs.lemmas.List.{append-nil}
use Rattle.std.proofs.lemmas.List.Folds.{concat-append}
use Rattle.std.specs.List.{AllByRecursion, concat}
use Rattle.std.proofs.KnownBytes.{Consumes-trans}
use Rattle.ttx_pes.specs.PesGrammar.{PesValue, IsValidPesPacket}
use Rattle.ttx_pes.specs.Reader.{TakesValidPesPackets, TakesValidPesPacket}

each-more : (packets : List (List ℕ)) (b : List ℕ)
    → AllByRecursion (λ x. (v : PesValue) × IsValidPesPacket v x) packets
    → (v : PesValue) × IsValidPesPacket v b
    → AllByRecursion (λ x. (v : PesValue) × IsValidPesPacket v x) (packets ++ b ∷ [])
each-more [] b h p = (p, tt)
each-more (x ∷ packets) b h p = (h.0, each-more packets b h.1 p)

pub takes-more : (n : ℕ) (old mid new : Option (List ℕ)) (v : PesValue)
    → TakesValidPesPackets n old mid
    → TakesValidPesPacket mid new v
    → TakesValidPesPackets (n + 1) old new
takes-more n old mid new v h t =
    let joined : concat (h.packets ++ t.bytes ∷ []) ≡ concat h.packets ++ t.bytes =
    grind (arith, nat_tests, concat-append, append-nil) in
    grind (arith, nat_tests, concat-append, append-nil, length-append, each-more, Consumes-trans)
