-- A device that receives no events after it has stopped the check.
use Rattle.std.specs.Prelude.{◌≡◌, true, false, [], ◌∷◌}
use Rattle.sub_io.specs.Reporting.{Reports}
use Rattle.sub_rules.specs.declared.event.Event.{Event}
use Rattle.sub_checker.specs.declared.fused.FusedAudience.{FusedAudience}

-- A `FusedAudience` passes an event to its device, unless the device has stopped the check.
pub record ReportsUnlessStopped
    {D : Type 0} {g : _} (IsReported : D → Event → D → Type 0)
    (old : FusedAudience D g) (e : Event) (new : FusedAudience D g)
    : Type 0 where
  pub same : new.device.ghost_name ≡ old.device.ghost_name
  pub stays : old.stopped ≡ true → (new.device.now ≡ old.device.now) × (new.stopped ≡ true)
  pub goes : old.stopped ≡ false → Reports IsReported old.device.now new.device.now (e ∷ [])
