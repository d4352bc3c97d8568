-- The bytes that a device transfers in several calls are joined in order.
use Rattle.std.proofs.Common.{◌≡◌, ℕ, ◌+◌, ◌-◌, ◌≤◌, List, ◌++◌, length, take, drop, Option, Some}
use Rattle.std.proofs.Common.{None, Result, Ok, Err, refl, sym, ap, ◌∙◌, subst, le_refl, arith}
use Rattle.std.proofs.Common.{length-append, drop_at, length-take-le}
use Rattle.std.specs.Prelude.{IfOk}
use Rattle.std.proofs.lemmas.Slice.{take-put_mid_below}
use Rattle.std.specs.Io.KnownBytes.{Appends, Consumes}
use Rattle.std.proofs.KnownBytes.{Appends-trans, Consumes-trans}
use borrow.Rule.Slice.PartMut.{put_mid, post_of}
use Rattle.std.proofs.lemmas.List.{take-take, take_rest}
use Rattle.std.proofs.Math.Seq.{take-append-add, take-length}
use Rattle.std.proofs.lemmas.Option.{same_Some}
use lib.Seq.{take-add, take-append-le, take-append_seam}
use Rattle.sub_io.specs.Device.{AppendsPrefix, Fills, SkipsOver, FillsFromKnown, Writes}
use Rattle.sub_io.specs.Reading.{AreNextBytes, IfKnown}
use Rattle.sub_io.specs.declared.source.Failed.{Failed}

take-put_mid : (a k n : ℕ) (xs ys : List ℕ)
    → a ≤ length xs
    → n ≤ length ys
    → take (a + n) (put_mid a k xs ys) ≡ take a xs ++ take n ys
take-put_mid a k n xs ys within fits =
    let after = post_of a k xs in
    let prefix = take-put_mid_below a k xs ys a (le_refl a) within in
    let back : drop a (put_mid a k xs ys) ≡ ys ++ after =
    drop_at (take a xs) (ys ++ after) a (length-take-le a xs within) in
    take-add a n (put_mid a k xs ys)
    ∙ ap (λ l. l ++ take n (drop a (put_mid a k xs ys))) prefix
    ∙ ap (λ l. take a xs ++ take n l) back
    ∙ ap (λ l. take a xs ++ l) (take-append-le n ys after fits)

pub Consumes-more : (x y z : Option (List ℕ)) (a k n : ℕ) (xs ys : List ℕ)
    → a ≤ length xs
    → n ≤ length ys
    → Consumes x y (take a xs)
    → Consumes y z (take n ys)
    → Consumes x z (take (a + n) (put_mid a k xs ys))
Consumes-more x y z a k n xs ys within fits p q =
    subst (Consumes x z) (sym (take-put_mid a k n xs ys within fits)) (Consumes-trans x y z _ _ p q)

pub Consumes-skipped : (old new : Option (List ℕ)) (prefix : List ℕ) (n : ℕ)
    → AreNextBytes prefix old
    → n ≤ length prefix
    → SkipsOver old n new
    → Consumes old new (take n prefix)
Consumes-skipped None new prefix n begins le p = tt
Consumes-skipped (Some xs) None prefix n begins le p = absurd p.consumed
Consumes-skipped (Some xs) (Some ys) prefix n begins le p =
    let same : take n prefix ≡ p.bytes =
    ap (take n) (sym (begins xs refl))
    ∙ take-take n (length prefix) xs le
    ∙ ap (take n) p.consumed
    ∙ ap (λ k. take k (p.bytes ++ ys)) (sym p.number)
    ∙ take-append_seam p.bytes ys in
    p.consumed ∙ ap (λ l. l ++ ys) (sym same)

pub Appends-more : (x y z : Option (List ℕ)) (a m n : ℕ) (xs : List ℕ)
    → m ≡ length xs - a
    → Appends x y (take a xs)
    → Appends y z (take n (take m (drop a xs)))
    → Appends x z (take (a + n) xs)
Appends-more x y z a m n xs e p q =
    let whole : take m (drop a xs) ≡ drop a xs = rw e (take_rest xs a) in
    subst (Appends x z) (ap (λ l. take a xs ++ take n l) whole ∙ sym (take-add a n xs))
    (Appends-trans x y z _ _ p q)

-- If the bytes of a source are known, filling a buffer from the source determines which bytes the
-- source has left.
pub FillsFromKnown-from_fills : (old new : Option (List ℕ)) (n : ℕ) (buffer : List ℕ)
    → Fills old n new buffer
    → IfKnown old (λ bytes. FillsFromKnown bytes n new buffer)
FillsFromKnown-from_fills None new n buffer f bytes e = absurd cc
FillsFromKnown-from_fills (Some xs) None n buffer f bytes e = absurd f.bytes
FillsFromKnown-from_fills (Some xs) (Some ys) n buffer f bytes e =
    record {
      rest = ys;
      parts = sym (same_Some xs bytes e) ∙ f.bytes;
      new_eq = refl;
      ended = f.end;
    }

pub FillsFromKnown-from_result : (old new : Option (List ℕ)) (buffer : List ℕ) (r : Result ℕ Failed)
    → IfOk r (λ n. Fills old n new buffer)
    → IfKnown old (λ bytes. IfOk r (λ n. FillsFromKnown bytes n new buffer))
FillsFromKnown-from_result old new buffer (Ok n) f = FillsFromKnown-from_fills old new n buffer f
FillsFromKnown-from_result old new buffer (Err e) f = λ bytes is. tt

-- If the first of two writes fails, the sink has taken a prefix of the bytes of both.
pub AppendsPrefix-first : (old new : Option (List ℕ)) (xs ys : List ℕ)
    → AppendsPrefix old new xs
    → AppendsPrefix old new (xs ++ ys)
AppendsPrefix-first old new xs ys p =
    let room : p.0 ≤ length xs = p.1 in
    let same = sym (take-append-le p.0 xs ys room) in
    (p.0, omega (arith, length-append xs ys), subst (Appends old new) same p.2)

-- If the second of two writes fails, the sink has taken the bytes of the first write and a prefix
-- of the second, so a prefix of both.
pub AppendsPrefix-second : (old mid new : Option (List ℕ)) (xs ys : List ℕ)
    → Appends old mid xs
    → AppendsPrefix mid new ys
    → AppendsPrefix old new (xs ++ ys)
AppendsPrefix-second old mid new xs ys p q =
    let room : q.0 ≤ length ys = q.1 in
    let whole = Appends-trans old mid new xs (take q.0 ys) p q.2 in
    let same = sym (take-append-add xs ys q.0) in
    (length xs + q.0, omega (arith, length-append xs ys), subst (Appends old new) same whole)

pub AppendsPrefix-whole : (old new : Option (List ℕ)) (xs : List ℕ)
    → Appends old new xs
    → AppendsPrefix old new xs
AppendsPrefix-whole old new xs p =
    (length xs, le_refl (length xs), subst (Appends old new) (sym (take-length xs)) p)

pub Writes-after : {X E : Type 0} (old mid new : Option (List ℕ)) (xs ys : List ℕ)
    → (result : Result X E)
    → Appends old mid xs
    → Writes mid new ys result
    → Writes old new (xs ++ ys) result
Writes-after old mid new xs ys (Ok value) p q = Appends-trans old mid new xs ys p q
Writes-after old mid new xs ys (Err fault) p q = AppendsPrefix-second old mid new xs ys p q

pub ruleset prefixes =
    (AppendsPrefix-first, AppendsPrefix-second, AppendsPrefix-whole, Writes-after)
