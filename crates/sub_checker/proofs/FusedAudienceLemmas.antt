-- The device receives every event until the check stops, and none afterwards. The check also stops
-- if reports cannot be flushed.
use Rattle.std.proofs.Common.{◌≡◌, ◌∙◌, Bool, true, false, List, [], ◌∷◌, refl, sym, subst}
use Rattle.std.proofs.lemmas.Bool.{true≢false}
use Rattle.sub_io.proofs.ReportingLemmas.{Reports-none, Reports-trans, ReportsPrefix-first}
use Rattle.sub_io.proofs.ReportingLemmas.{ReportsPrefix-second, ReportsPrefix-whole}
use Rattle.std.proofs.Common.{ℕ, ap, inl, inr, not, take}
use Rattle.sub_io.specs.Flushing.{FlushesOnlyIfPending, FlushKeepsReports}
use Rattle.sub_io.specs.Reporting.{Reports, ReportsInOrder, ReportsPrefix, ReportsSome}
use Rattle.sub_checker.specs.FusedAudience.{ReportsUnlessStopped}
use Rattle.sub_rules.specs.declared.event.Event.{Event}
use Rattle.sub_checker.specs.declared.fused.FusedAudience.{FusedAudience}

module _ {D : Type 0} {g : _} (IsReported : D → Event → D → Type 0) where
  -- The device received the events, or a prefix of them if it stopped the check, or none if it had
  -- stopped before.
  pub record FusedDeviceReceives (old new : FusedAudience D g) (es : List Event) : Type 0 where
    pub same : new.device.ghost_name ≡ old.device.ghost_name
    pub stays : old.stopped ≡ true → (new.device.now ≡ old.device.now) × (new.stopped ≡ true)
    pub whole : new.stopped ≡ false → Reports IsReported old.device.now new.device.now es
    pub cut : ReportsPrefix IsReported old.device.now new.device.now es

  receives-none : (old : FusedAudience D g) → FusedDeviceReceives old old []
  receives-none old = record {
    same = refl;
    stays = λ e. (refl, e);
    whole = λ e. Reports-none _;
    cut = ReportsPrefix-whole _ _ [] (Reports-none _);
  }

  receives-more : (old mid new : FusedAudience D g) (e : Event) (es : List Event) (s t : Bool)
      → old.stopped ≡ s
      → mid.stopped ≡ t
      → ReportsUnlessStopped IsReported old e mid
      → FusedDeviceReceives mid new es
      → FusedDeviceReceives old new (e ∷ es)
  receives-more old mid new e es true t is then first rest =
      let at = first.stays is in
      let on = rest.stays at.1 in
      record {
        same = rest.same ∙ first.same;
        stays = λ e. (on.0 ∙ at.0, on.1);
        whole = λ f. absurd (true≢false (sym on.1 ∙ f));
        cut =
            rw (on.0, at.0)
            (ReportsPrefix-first _ _ [] (e ∷ es) (ReportsPrefix-whole _ _ [] (Reports-none _)));
      }
  receives-more old mid new e es false true is then first rest =
      let on = rest.stays then in
      record {
        same = rest.same ∙ first.same;
        stays = λ e. absurd (true≢false (sym e ∙ is));
        whole = λ f. absurd (true≢false (sym on.1 ∙ f));
        cut = rw on.0 (ReportsPrefix-first _ _ (e ∷ []) es
            (ReportsPrefix-whole _ _ _ (first.goes is)));
      }
  receives-more old mid new e es false false is then first rest = record {
    same = rest.same ∙ first.same;
    stays = λ e. absurd (true≢false (sym e ∙ is));
    whole = λ f. Reports-trans _ _ _ (e ∷ []) es (first.goes is) (rest.whole f);
    cut = ReportsPrefix-second _ _ _ (e ∷ []) es (first.goes is) rest.cut;
  }

  one_by_one : (old new : FusedAudience D g) (es : List Event)
      → ReportsInOrder (ReportsUnlessStopped IsReported) old new es
      → FusedDeviceReceives old new es
  one_by_one old new [] same = subst (λ (s : FusedAudience D g). FusedDeviceReceives old s [])
      (sym same)
      (receives-none old)
  one_by_one old new (e ∷ es) (mid, first, rest) =
      receives-more old mid new e es old.stopped mid.stopped refl refl first
      (one_by_one mid new es rest)

  pub reported_events_are_received : (old new : FusedAudience D g) (es : List Event)
      → Reports (ReportsUnlessStopped IsReported) old new es
      → FusedDeviceReceives old new es
  reported_events_are_received old new es reported = one_by_one old new es reported.one_by_one

  pub some_reported_events_are_received : (old new : FusedAudience D g) → ReportsSome
      (ReportsUnlessStopped IsReported) old new
      → (new.device.ghost_name ≡ old.device.ghost_name)
      × ReportsSome IsReported old.device.now new.device.now
  some_reported_events_are_received old new some =
      let p = reported_events_are_received old new some.items some.reported in
      (p.same, record { items = take p.cut.0 _; reported = p.cut.2 })

pub flush_stops_device_if_it_fails : {A D : Type 0} {IsReported : D → A → D → Type 0}
    {has_stopped has_pending_reports : D → Bool} {buffered : D → ℕ}
    {IsFlushed : D → Bool → D → Type 0}
    → FlushKeepsReports IsReported has_stopped has_pending_reports buffered IsFlushed
    → (old new : D) (ok : Bool)
    → FlushesOnlyIfPending has_pending_reports IsFlushed old ok new
    → has_stopped old ≡ false
    → has_stopped new ≡ not ok
flush_stops_device_if_it_fails {A} {D} {IsReported} {has_stopped} stays old new ok (inl same)
    continues =
    ap has_stopped same.1 ∙ continues ∙ sym (ap not same.0)
flush_stops_device_if_it_fails {A} {D} {IsReported} {has_stopped} stays old new ok (inr on)
    continues =
    stays.stopped old new ok on.1
