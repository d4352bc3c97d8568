-- Page transmissions are written one after another; if a write fails, the sink has a prefix of
-- them.
use Rattle.std.proofs.Common.{◌≡◌, ℕ, ◌+◌, ◌-◌, ◌%◌, ◌==◌, Bool, List, ◌∷◌, ◌++◌, Option, All, []}
use Rattle.std.proofs.Common.{length, refl, sym, ap, ◌∙◌, arith, append_assoc, append-nil, filter}
use Rattle.std.proofs.Common.{length-append}
use Rattle.std.proofs.lemmas.Bool.Decides.{nat_tests}
use Rattle.std.proofs.lemmas.Grind.{flat_map-append}
use Rattle.std.proofs.lemmas.List.Elements.{All-filter, All-head, All-tail}
use Rattle.std.specs.List.{flat_map, range_with_len}
use Rattle.std.specs.Io.KnownBytes.{Appends}
use Rattle.std.proofs.KnownBytes.{Appends-trans}
use Rattle.sub_io.specs.Device.{AppendsPrefix}
use Rattle.sub_io.proofs.DeviceLemmas.{AppendsPrefix-first, AppendsPrefix-second}
use Rattle.ttx_page.specs.Page.{Rows}
use Rattle.stl_rows.specs.declared.national.National.{National}
use Rattle.sub_plan.specs.Options.{OptionsValue}
use Rattle.sub_plan.specs.Schedule.{sending_at}
use Rattle.sub_plan.specs.Sending.{sending}
use Rattle.sub_plan.specs.Steps.{pes_packet_bytes_at, steps}
use Rattle.sub_plan.proofs.ScheduleBases.{property_holds_on_range}
use Rattle.sub_plan.proofs.StepLemmas.{IsIntervalOfOnePage}

-- The sink received the bytes of `count` frames, and these frames followed by the frames `left` are
-- all frames of the schedule.
pub record IsPartWritten (u v : Option (List ℕ)) (bytes_of : ℕ → List ℕ) (count : ℕ)
    (left all : List ℕ) : Type 0 where
  pub done : List ℕ
  pub whole : done ++ left ≡ all
  pub counted : count ≡ length done
  pub bytes : Appends u v (flat_map bytes_of done)

module _ {u v : Option (List ℕ)} {bytes_of : ℕ → List ℕ} {count : ℕ} {left all : List ℕ}
    (part : IsPartWritten u v bytes_of count left all) where
  pub part-more : {w : Option (List ℕ)} (more : List ℕ) {left' : List ℕ}
      → left ≡ more ++ left'
      → Appends v w (flat_map bytes_of more)
      → IsPartWritten u w bytes_of (count + length more) left' all
  part-more {w} more {left'} e goes = record {
    done = part.done ++ more;
    whole = append_assoc part.done more left' ∙ rw e at part.whole;
    counted = omega (arith, part.counted, length-append part.done more);
    bytes = grind (arith, nat_tests, flat_map-append, Appends-trans);
  }

  pub part-end : left ≡ [] → (count ≡ length all) × Appends u v (flat_map bytes_of all)
  part-end e = grind (arith, nat_tests, append-nil)

  pub prefix-more : (w : Option (List ℕ)) (more left' : List ℕ)
      → left ≡ more ++ left'
      → AppendsPrefix v w (flat_map bytes_of more)
      → AppendsPrefix u w (flat_map bytes_of all)
  prefix-more w more left' e p =
      let s : List ℕ → List ℕ = flat_map bytes_of in
      rw (← part.whole, e, flat_map-append bytes_of part.done (more ++ left'))
      (rw (flat_map-append bytes_of more left')
      (AppendsPrefix-second u v w (s part.done) (s more ++ s left') part.bytes
      (AppendsPrefix-first v w (s more) (s left') p)))

  pub part-one : {w : Option (List ℕ)} {f : ℕ} {left' : List ℕ}
      → left ≡ f ∷ left'
      → Appends v w (bytes_of f)
      → IsPartWritten u w bytes_of (count + 1) left' all
  part-one {w} {f} e goes = part-more (f ∷ []) e (rw (append-nil (bytes_of f)) goes)

  pub prefix-one : (w : Option (List ℕ)) {f : ℕ} {left' : List ℕ}
      → left ≡ f ∷ left'
      → AppendsPrefix v w (bytes_of f)
      → AppendsPrefix u w (flat_map bytes_of all)
  prefix-one w {f} {left'} e p = prefix-more w (f ∷ []) left' e (rw (append-nil (bytes_of f)) p)

equal_functions_flat_map_equally : (f g : ℕ → List ℕ) (xs : List ℕ) → All (λ x. f x ≡ g x) xs
    → flat_map f xs ≡ flat_map g xs
equal_functions_flat_map_equally f g [] h = refl
equal_functions_flat_map_equally f g (x ∷ xs) h =
    rw (
      All-head (λ y. f y ≡ g y) x xs h,
      equal_functions_flat_map_equally f g xs
          (All-tail (λ y. f y ≡ g y) x xs h),
    )
    refl

-- From a base (the first frame, or a frame where the expected page changes) until the page changes
-- again or the last frame is reached, each page transmission sends the page expected at the base.
pub stretch-bytes : (due : ℕ → Rows) (o : OptionsValue) (national : National) (serial : Bool)
    (first b end last : ℕ)
    → IsIntervalOfOnePage due first b end last
    → flat_map (pes_packet_bytes_at o.origin (sending o.page national serial (due b)))
    (steps o.every b end)
    ≡ flat_map (sending_at due o national serial) (steps o.every b end)
unfolding steps
stretch-bytes due o national serial first b end last s =
    let own = pes_packet_bytes_at o.origin (sending o.page national serial (due b)) in
    let at = sending_at due o national serial in
    equal_functions_flat_map_equally own at
    (filter (λ f. (f - b) % o.every == 0) (range_with_len b (end - b)))
    (All-filter (λ f. (f - b) % o.every == 0) (λ f. own f ≡ at f) (range_with_len b (end - b))
    (property_holds_on_range (λ f. own f ≡ at f) b (end - b)
    (λ j low high. ap (λ page. pes_packet_bytes_at o.origin (sending o.page national serial page) j)
    (sym (s.same j low (omega (arith, s.some)))))))
