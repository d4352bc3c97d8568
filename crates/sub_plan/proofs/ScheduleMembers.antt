-- The computed list of frames contains exactly the frames that have a page transmission.
use Rattle.std.proofs.Common.{◌≡◌, ℕ, zero, suc, ◌+◌, ◌-◌, ◌<◌, ◌≤◌, Bool, true, List, [], ◌∷◌}
use Rattle.std.proofs.Common.{arith, inl, inr, filter, Decides}
use Rattle.std.proofs.lemmas.Bool.Decides.{nat_tests, Decides-eqb, Decides-like, Decides-or}
use Rattle.std.proofs.lemmas.Bool.{cases_lt, cond_both}
use Rattle.std.proofs.lemmas.List.Elements.{All-contains, All-filter, Contains-append_right}
use Rattle.std.proofs.lemmas.List.Elements.{filter_passes}
use Rattle.std.specs.List.{range_with_len, Contains}
use Rattle.ttx_page.specs.Page.{Rows}
use Rattle.sub_plan.specs.Laws.{IsSending, LawOfGaps, LawOfSendings}
use Rattle.sub_plan.specs.Schedule.{is_sending, sendings_from}
use Rattle.sub_plan.proofs.ScheduleBases.{base-last, base_is_last_base, property_holds_on_range}
use Rattle.sub_plan.proofs.ScheduleBases.{every_gap_has_a_sending}

filtered_members_pass : (p : ℕ → Bool) (a n x : ℕ) → Contains (filter p (range_with_len a n)) x
    → ((a ≤ x) × (x < a + n)) × (p x ≡ true)
filtered_members_pass p a n x c =
    let xs = range_with_len a n in (
      All-contains (λ y. (a ≤ y) × (y < a + n)) (filter p xs) x
          (All-filter p (λ y. (a ≤ y) × (y < a + n)) xs
          (property_holds_on_range (λ y. (a ≤ y) × (y < a + n)) a n (λ j low high. (low, high)))) c,
      All-contains (λ y. p y ≡ true) (filter p xs) x (filter_passes p xs) c,
    )

contains : (p : ℕ → Bool) (a n x : ℕ) → a ≤ x → x < a + n → p x ≡ true
    → Contains (filter p (range_with_len a n)) x
contains p a zero x low high h = absurd (omega arith)
contains p a (suc n) x low high h =
    let rest : List ℕ = filter p (range_with_len (a + 1) n) in
    elim (cases_lt a x) [
      | inl later ↦
          let found = contains p (a + 1) n x (omega arith) (omega arith) h in
          cond_both (p a) (a ∷ rest) rest (λ xs. Contains xs x)
          (λ _. Contains-append_right (a ∷ []) rest x found) (λ _. found)
      | inr here ↦ grind (arith, nat_tests)
    ]

is_sending-Decides : (due : ℕ → Rows) (every first last f : ℕ) → first ≤ f
    → Decides (is_sending due every first last f) (IsSending due every first last f)
unfolding is_sending
is_sending-Decides due every first last f low =
    grind (arith, nat_tests, Decides-or, Decides-eqb, Decides-like, base_is_last_base, base-last)

pub law_of_sendings : LawOfSendings
unfolding sendings_from
law_of_sendings due every first last f = (
  λ c.
      let m = filtered_members_pass (is_sending due every first last) first (last + 1 - first) f c
      in
      let low = m.0.0 in
      (low, omega (arith, m.0.1), (is_sending-Decides due every first last f low).0 m.1),
  λ s. contains (is_sending due every first last) first (last + 1 - first) f s.0
      (omega (arith, s.0, s.1)) ((is_sending-Decides due every first last f s.0).1 s.2),
)

pub law_of_gaps : LawOfGaps
unfolding sendings_from
law_of_gaps due every first last g some low room =
    grind (arith, nat_tests, every_gap_has_a_sending due every first last g some low room, contains)
