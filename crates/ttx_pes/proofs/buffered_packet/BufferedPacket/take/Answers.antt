-- The parsed fields of a PES packet follow from its header and its data field.
use Rattle.std.proofs.Common.{ap, ◌≡◌, arith, refl, rules}
use Rattle.std.proofs.lemmas.Result.{err_from_is_err_and}
use Rattle.ttx_pes.specs.Accepting.{BufferedPacketValue}
use Rattle.ttx_pes.proofs.FrameBufferLemmas.{IsPesBody, repeated_units_describe_packet}
use Rattle.ttx_pes.proofs.FrameBufferLemmas.{new_units_describe_packet}
use Rattle.ttx_pes.proofs.FrameBufferLemmas.{unit_fault_refuses_value}
use Rattle.ttx_pes.proofs.buffered_packet.BufferedPacket.take.Goals as goal
use Rattle.ttx_pes.proofs.buffered_packet.BufferedPacket.take.Goals.{In_ok-pts}

body_size_is_valid : (c : In_ok-pts) → IsPesBody c.args.body.now
body_size_is_valid c = record {
  short = c.requires.short;
  whole = c.requires.whole;
  long = c.requires.long;
  fit = λ i. let fits = c.type_inv.body i in omega (arith, fits);
}

pub returns-then-equals_stored_field-clause-value :
    goal.returns-then-equals_stored_field-clause-value
returns-then-equals_stored_field-clause-value c =
    let count : c.self.inside.count ≡ c.args.self.now.count =
    ap (λ (h : BufferedPacketValue). h.count) c.self.view_is in
    let places : c.self.inside.places ≡ c.args.self.now.places =
    ap (λ (h : BufferedPacketValue). h.places) c.self.view_is in
    let h : BufferedPacketValue = record {
      pts = c.in_ok-pts.pts;
      count = c.self.inside.count;
      places = c.self.inside.places;
    } in
    (repeated_units_describe_packet c.args.body.now c.split_at.result.1.now _ _ h
    (body_size_is_valid (goal.at.returns-then-equals_stored_field-clause-value c).In_ok-pts)
    c.in_ok-pts.ensures.exact
    (search rules) (search rules) c.requires.known count places).value

pub returns-in_err-find_places-clause-err : goal.returns-in_err-find_places-clause-err
returns-in_err-find_places-clause-err c =
    let p = err_from_is_err_and c.from_residual-in_err-find_places.result
    c.from_residual-in_err-find_places.ensures.1 in
    rw (p.1, p.2) (unit_fault_refuses_value c.args.body.now c.split_at.result.1.now c.in_ok-pts.pts
    _
    c.in_ok-pts.ensures.exact (search rules) c.in_err-find_places.ensures.err)

pub returns-clause-value : goal.returns-clause-value
returns-clause-value c =
    (new_units_describe_packet c.args.body.now c.split_at.result.1.now _
    (body_size_is_valid (goal.at.returns-clause-value c).In_ok-pts) c.in_ok-pts.ensures.exact
    (search rules)
    refl c.in_ok-find_places.ensures.within c.in_ok-find_places.ensures.all
    c.in_ok-find_places.ensures.ok).value

pub returns-clause-known : goal.returns-clause-known
returns-clause-known c =
    (new_units_describe_packet c.args.body.now c.split_at.result.1.now _
    (body_size_is_valid (goal.at.returns-clause-known c).In_ok-pts) c.in_ok-pts.ensures.exact
    (search rules)
    refl c.in_ok-find_places.ensures.within c.in_ok-find_places.ensures.all
    c.in_ok-find_places.ensures.ok).known
