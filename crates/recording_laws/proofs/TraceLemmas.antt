-- Each accepted packet is a copy of a TS packet that was sent. If the next accepted packet
-- continues it, the number of TS packets with payload missing between them is a multiple of 16.
use Rattle.std.proofs.Common.{◌<◌, nat_lt, ◌≡◌, ℕ, ◌+◌, ◌%◌, ◌⊎◌, inl, inr, Bool, true, false, ◌||◌}
use Rattle.std.proofs.Common.{List, [], ◌∷◌, ◌++◌, Option, Some, None, refl, sym, ap, arith, ◌∙◌}
use Rattle.std.proofs.Common.{subst}
use Rattle.std.specs.List.{AllByRecursion, flat_map}
use Rattle.std.specs.Option.{is_some, option_to_list}
use Rattle.recording_laws.proofs.LossyCarrierLemmas.{IsLastCounter, few-gone, few-there}
use Rattle.recording_laws.proofs.LossyCarrierLemmas.{fresh-later}
use Rattle.recording_laws.proofs.LossyCarrierLemmas.{break-left, AreCountersConsecutive}
use Rattle.recording_laws.proofs.LossyCarrierLemmas.{IsPacketCopy, IsAnyLossyCarrier}
use Rattle.recording_laws.proofs.LossyCarrierLemmas.{carrier_announces_no_jump, copy-again}
use Rattle.recording_laws.proofs.LossyCarrierLemmas.{cut-left}
use Rattle.recording_laws.proofs.LossyCarrierLemmas.{good_packet_after_loss}
use Rattle.recording_laws.proofs.LossyCarrierLemmas.{link_after_loss, linked_packet-left}
use Rattle.std.proofs.lemmas.Bool.{cases_Bool}
use Rattle.std.proofs.lemmas.Bool.Decides.{nat_tests}
use Rattle.std.proofs.lemmas.Grind.{flat_map-append}
use Rattle.std.proofs.lemmas.List.{append-nil}
use Rattle.mpeg_ts.specs.GoodPackets.{GoodPacket, GoodPackets, PidEvent, good_packets_after}
use Rattle.mpeg_ts.specs.GoodPackets.{is_repeat}
use Rattle.mpeg_ts.specs.GoodPackets.{with_good_packet}
use Rattle.mpeg_ts.specs.Parts.{is_break, is_unlinked}
use Rattle.mpeg_ts.specs.TransportPacket.{announces_jump, counter}
use Rattle.recording_laws.specs.Losses.{loses_few_in_row, is_recorded, units_before_copy}
use Rattle.recording_laws.specs.Losses.{units_after_copy, SentUnit}
use Rattle.recording_laws.specs.Losses.{any_unit_intact, any_unit_damaged, is_recorded_intact}
use Rattle.recording_laws.specs.Losses.{sent_packet}
use Rattle.recording_laws.specs.Multiplex.{Carrier, IsRepetition, is_irrelevant, items_of_carrier}
use Rattle.recording_laws.proofs.CarrierLemmas.{good-repeat}
use Rattle.recording_laws.proofs.LossyNoteLemmas.{or-false, IsLossyUnit, IsLossyCarrier}
use Rattle.recording_laws.proofs.LossyNoteLemmas.{repeat_or_packet}
use Rattle.recording_laws.proofs.LossyNoteLemmas.{good-first}
use Rattle.recording_laws.proofs.LossyNoteLemmas.{good-empty_first_gives_nothing}
use Rattle.recording_laws.proofs.LossyNoteLemmas.{good-no-intact-repeat, good-quiets-left}
use Rattle.recording_laws.proofs.LossyNoteLemmas.{good-second, heard-carrier, heard-kept}
use Rattle.recording_laws.proofs.LossyNoteLemmas.{notes_of_unit}
use Rattle.recording_laws.proofs.LossyNoteLemmas.{history_after_loss}

-- If an accepted packet has the next continuity counter, the number of TS packets with payload that
-- are missing before it is a multiple of 16.
gone-between : (i n a b : ℕ)
    → a ≡ i % 16
    → b ≡ (i + 1 + n) % 16
    → b ≡ (a + 1) % 16
    → n % 16 ≡ 0
gone-between i n a b first second on = omega arith

link-far : (i n : ℕ) (g h : List ℕ) (wrong : Bool)
    → counter g ≡ i % 16
    → counter h ≡ (i + 1 + n) % 16
    → is_break (link_after_loss (Some g) wrong h) ≡ false
    → n % 16 ≡ 0
link-far i n g h wrong h1 h2 h3 = grind (arith, nat_tests, gone-between)

module _ (distance number : ℕ) (few : Bool) where
  pub record Stays (good : Option (List ℕ)) (c : Carrier SentUnit) (goods : GoodPackets)
      (ns : List PidEvent) : Type 0 where
    pub again : Bool
    pub wrong_after_good : Bool
    pub gone : few ≡ true → is_recorded c ≡ false
    pub goods_eq : goods ≡ good_packets_after (history_after_loss good again wrong_after_good) ns

  pub record CopyComesFirst (good : Option (List ℕ)) (wrong : Bool) (c : Carrier SentUnit)
      (goods : GoodPackets) (ns : List PidEvent) : Type 0 where
    pub copy : List ℕ
    pub is_damaged_before_copy : Bool
    pub again : Bool
    pub wrong_after_good : Bool
    pub is_packet_copy : IsPacketCopy (sent_packet distance c.packet) copy
    pub exact :
        few ≡ true
        → (is_recorded c ≡ true)
        × (is_damaged_before_copy ≡ (wrong || any_unit_damaged (units_before_copy c)))
        × (wrong_after_good ≡ any_unit_damaged (units_after_copy c))
    pub goods_eq :
        goods
        ≡ with_good_packet (good_packet_after_loss good is_damaged_before_copy copy)
        (good_packets_after (history_after_loss (Some copy) again wrong_after_good) ns)

  abbrev pub StepsToNextCopy : Option (List ℕ) → Bool → Carrier SentUnit → GoodPackets → List
      PidEvent → Type 0
  StepsToNextCopy good wrong c goods ns = Stays good c goods ns ⊎ CopyComesFirst good wrong c goods
      ns

  -- If fewer than 15 consecutive TS packets with payload are missing or damaged, the next packet is
  -- never taken for a repeat of the last accepted packet.
  abbrev pub IsNeverRepeat : Option (List ℕ) → Carrier SentUnit → Type 0
  IsNeverRepeat good c =
      few ≡ true
      → (again wrong : Bool) (q : List ℕ)
      → IsPacketCopy (sent_packet distance c.packet) q
      → is_repeat (history_after_loss good again wrong) q ≡ false

  second-repeat : (good : Option (List ℕ)) (again wrong : Bool) (p : List ℕ) (o : Option SentUnit)
      (after : List SentUnit) (ns : List PidEvent)
      → AllByRecursion (λ f. IsRepetition number p (sent_packet distance f)) (option_to_list o)
      → AllByRecursion (IsLossyUnit distance number) after
      → AllByRecursion (λ f. is_irrelevant number (sent_packet distance f) ≡ true) after
      → any_unit_intact (option_to_list o) ≡ true
      → is_repeat (history_after_loss good again wrong) (repeat_or_packet distance number o p) ≡
      true
      → good_packets_after (history_after_loss good again wrong)
      (flat_map (notes_of_unit distance number) (option_to_list o)
      ++ (flat_map (notes_of_unit distance number) after ++ ns))
      ≡ good_packets_after (history_after_loss good true (wrong || any_unit_damaged after)) ns
  second-repeat good again wrong p o after ns h1 h2 h3 h4 h5 =
      grind (arith, nat_tests, append-nil, heard-kept, good-repeat, good-quiets-left)

  second-steps : (good : Option (List ℕ)) (again was wrong first : Bool) (c : Carrier SentUnit)
      (ns : List PidEvent)
      → IsLossyCarrier distance number first c
      → IsPacketCopy (sent_packet distance c.packet)
      (repeat_or_packet distance number c.again (sent_packet distance c.packet))
      → IsNeverRepeat good c
      → (few ≡ true
      → (is_recorded_intact c.packet.fate ≡ false)
      × (wrong ≡ (was || any_unit_damaged (c.packet ∷ c.before))))
      → StepsToNextCopy good was c
      (good_packets_after (history_after_loss good again wrong)
      (flat_map (notes_of_unit distance number) (option_to_list c.again)
      ++ (flat_map (notes_of_unit distance number) c.after ++ ns))) ns
  second-steps good again was wrong first c ns h copy new gone =
      elim (cases_Bool (any_unit_intact (option_to_list c.again))) [
        | inl kept ↦ elim (cases_Bool (is_repeat (history_after_loss good again wrong) q)) [
          | inl same ↦
              inl
              (record {
                again = true;
                wrong_after_good = wrong || any_unit_damaged c.after;
                gone = λ e. absurd (cc (same, new e again wrong q copy));
                goods_eq =
                    second-repeat good again wrong p c.again c.after ns h.is_carrier.again h.after
                    h.is_carrier.after kept same;
              })
          | inr fresh ↦
              inr
              (record {
                copy = q;
                is_damaged_before_copy = wrong;
                again = false;
                wrong_after_good = any_unit_damaged c.after;
                is_packet_copy = copy;
                exact = λ e. (
                  rw ((gone e).0, kept),
                  rw (gone e).0 (gone e).1,
                  rw (gone e).0,
                );
                goods_eq =
                    good-second distance number good again wrong p c.again c.after ns
                    h.is_carrier.again h.after h.is_carrier.after kept fresh
                    ∙ ap (λ (l : GoodPacket).
                    with_good_packet l (good_packets_after
                    (history_after_loss (Some q) false (any_unit_damaged c.after))
                    ns))
                    (linked_packet-left good again wrong q copy.no_jump);
              })
        ]
        | inr lost ↦
            inl
            (record {
              again = again;
              wrong_after_good = (wrong || any_unit_damaged (option_to_list c.again)) ||
                  any_unit_damaged c.after;
              gone = λ e. rw ((gone e).0, lost);
              goods_eq =
                  good-no-intact-repeat distance number good again wrong c.again c.after
                  ns h.again h.after
                  h.is_carrier.after lost;
            })
      ]
    where
      p : List ℕ
      p = sent_packet distance c.packet

      q : List ℕ
      q = repeat_or_packet distance number c.again p

  first-repeat : (good : Option (List ℕ)) (again wrong first : Bool) (c : Carrier SentUnit)
      (ns : List PidEvent)
      → IsLossyCarrier distance number first c
      → is_recorded_intact c.packet.fate ≡ true
      → is_repeat (history_after_loss good again wrong) (sent_packet distance c.packet) ≡ true
      → good_packets_after (history_after_loss good again wrong)
      (flat_map (notes_of_unit distance number) (items_of_carrier c) ++ ns)
      ≡ good_packets_after (history_after_loss good true (wrong || any_unit_damaged c.before))
      (flat_map (notes_of_unit distance number) (option_to_list c.again)
      ++ (flat_map (notes_of_unit distance number) c.after ++ ns))
  first-repeat good again wrong first c ns h1 h2 h3 =
      grind (arith, nat_tests, heard-carrier, heard-kept, good-repeat, good-quiets-left)

  carrier-steps : (good : Option (List ℕ)) (again wrong first : Bool) (c : Carrier SentUnit)
      (ns : List PidEvent)
      → IsLossyCarrier distance number first c
      → IsNeverRepeat good c
      → StepsToNextCopy good wrong c
      (good_packets_after (history_after_loss good again wrong)
      (flat_map (notes_of_unit distance number) (items_of_carrier c) ++ ns)) ns
  carrier-steps good again wrong first c ns h new = elim
      (cases_Bool (is_recorded_intact c.packet.fate)) [
        | inl kept ↦ elim (cases_Bool (is_repeat (history_after_loss good again wrong) p)) [
          | inl same ↦
              subst (λ (l : GoodPackets). StepsToNextCopy good wrong c l ns)
              (sym (first-repeat good again wrong first c ns h kept same))
              (second-steps good true wrong (wrong || any_unit_damaged c.before) first c ns
              h copy new
              (λ e. absurd (cc (same, new e again wrong p packet_copies_itself))))
          | inr fresh ↦
              inr
              (record {
                copy = p;
                is_damaged_before_copy = wrong;
                again = any_unit_intact (option_to_list c.again);
                wrong_after_good = any_unit_damaged
                    (c.before ++ (option_to_list c.again ++ c.after));
                is_packet_copy = packet_copies_itself;
                exact = λ e. (rw kept, rw kept (sym (or-false wrong)), rw kept);
                goods_eq =
                    good-first distance number good again wrong first c ns h kept fresh
                    ∙ ap (λ (l : GoodPacket).
                    with_good_packet l
                    (good_packets_after
                    (history_after_loss (Some p) (any_unit_intact (option_to_list c.again))
                    (any_unit_damaged (c.before ++ (option_to_list c.again ++ c.after)))) ns))
                    (linked_packet-left good again wrong p none);
              })
        ]
        | inr lost ↦
            subst (λ (l : GoodPackets). StepsToNextCopy good wrong c l ns)
            (sym (good-empty_first_gives_nothing distance number good again wrong first c ns
            h lost))
            (second-steps good again wrong (wrong || any_unit_damaged (c.packet ∷ c.before))
            first c ns
            h copy
            new (λ e. (lost, refl)))
      ]
    where
      p : List ℕ
      p = sent_packet distance c.packet

      none : announces_jump p ≡ false
      none = carrier_announces_no_jump number p h.is_carrier.carries h.packet.no_jump

      packet_copies_itself : IsPacketCopy p p
      packet_copies_itself = record
          { counter = refl; begins = refl; payload = refl; no_jump = none }

      copy : IsPacketCopy p (repeat_or_packet distance number c.again p)
      copy = copy-again distance number p c.again none h.again h.is_carrier.again

  -- If the reader finds no break before the accepted packet, the number n of TS packets missing
  -- before it is a multiple of 16. If fewer than 15 consecutive TS packets are missing or damaged,
  -- the reader finds no break exactly if n is 0 and no packet was damaged.
  pub record IsLinkExact (n : ℕ) (wrong : Bool) (c : Carrier SentUnit) (g : GoodPacket) : Type 0
    where
      pub cut : is_unlinked g.link ≡ is_break g.link
      pub far : is_break g.link ≡ false → n % 16 ≡ 0
      pub exact :
          few ≡ true
          → (n < 15) × (is_break g.link ≡ ((wrong || any_unit_damaged (units_before_copy c))
          || nat_lt
          0
          n))

  pub record IsGoodCopy (following : Bool) (n : ℕ) (wrong : Bool) (c : Carrier SentUnit)
      (g : GoodPacket)
      : Type 0 where
    pub copy : IsPacketCopy (sent_packet distance c.packet) g.packet
    pub there : few ≡ true → is_recorded c ≡ true
    pub first : following ≡ false → is_unlinked g.link ≡ true
    pub linked_packet : following ≡ true → IsLinkExact n wrong c g

  -- The accepted packets `goods` are copies of TS packets that were sent, in order. Since the last
  -- accepted packet, n TS packets with payload are missing, and `wrong` says whether a packet was
  -- damaged.
  abbrev pub AreTraced : Bool → ℕ → Bool → List (Carrier SentUnit) → List GoodPacket → Type 0
  AreTraced following n wrong [] goods = goods ≡ []
  AreTraced following n wrong (c ∷ cs) goods =
      ((wrong_after_good : Bool) × (few ≡ true → is_recorded c ≡ false) × AreTraced following
      (n + 1)
      wrong_after_good cs goods)
      ⊎ ((g : GoodPacket) × (more : List GoodPacket)
      × (goods ≡ g ∷ more) × IsGoodCopy following n wrong c g
      × (wrong_after_good : Bool) × (few ≡ true → wrong_after_good ≡ any_unit_damaged
      (units_after_copy c))
      × AreTraced true 0 wrong_after_good cs more)

  abbrev pub AreFewMissing : ℕ → List (Carrier SentUnit) → Type 0
  AreFewMissing n cs = few ≡ true → (n < 15) × (loses_few_in_row n cs ≡ true)

  split-step : (good : Option (List ℕ)) (again wrong : Bool) (c : Carrier SentUnit)
      (cs : List (Carrier SentUnit))
      → IsAnyLossyCarrier distance number c
      → IsNeverRepeat good c
      → StepsToNextCopy good wrong c
      (good_packets_after (history_after_loss good again wrong)
      (flat_map (notes_of_unit distance number) (flat_map items_of_carrier (c ∷ cs))))
      (flat_map (notes_of_unit distance number) (flat_map items_of_carrier cs))
  split-step good again wrong c cs is new =
      subst
      (λ (l : List PidEvent).
      StepsToNextCopy good wrong c (good_packets_after (history_after_loss good again wrong) l)
      (flat_map (notes_of_unit distance number) (flat_map items_of_carrier cs)))
      (sym
      (flat_map-append (notes_of_unit distance number) (items_of_carrier c)
      (flat_map items_of_carrier cs)))
      (carrier-steps good again wrong is.0 c
      (flat_map (notes_of_unit distance number) (flat_map items_of_carrier cs)) is.1 new)

  linked_packet-copy : (good : Option (List ℕ)) (i n : ℕ) (wrong is_damaged_before_copy : Bool)
      (c : Carrier SentUnit)
      (h : List ℕ)
      → IsLastCounter good i
      → counter h ≡ (i + 1 + n) % 16
      → (few ≡ true → n < 15)
      → (few ≡ true → is_damaged_before_copy ≡ (wrong || any_unit_damaged (units_before_copy c)))
      → is_some good ≡ true
      → IsLinkExact n wrong c (good_packet_after_loss good is_damaged_before_copy h)
  linked_packet-copy None i n wrong is_damaged_before_copy c h last_counter second
      small same some = absurd (cc some)
  linked_packet-copy (Some g) i n wrong is_damaged_before_copy c h last_counter second
      small same some = record {
        cut = cut-left g h is_damaged_before_copy;
        far = λ e. link-far i n g h is_damaged_before_copy last_counter second e;
        exact = λ e. (
          small e,
          break-left i n g h is_damaged_before_copy last_counter second (small e)
              ∙ ap (λ (b : Bool). b || nat_lt 0 n) (same e),
        );
      }

  first-link : (good : Option (List ℕ)) (is_damaged_before_copy : Bool) (h : List ℕ)
      → is_some good ≡ false
      → is_unlinked (link_after_loss good is_damaged_before_copy h) ≡ true
  first-link None is_damaged_before_copy h none = refl
  first-link (Some g) is_damaged_before_copy h none = absurd (cc none)

  pub carriers_are_traced : (good : Option (List ℕ)) (again wrong : Bool) (i n : ℕ)
      (cs : List (Carrier SentUnit))
      → IsLastCounter good i
      → AllByRecursion (IsAnyLossyCarrier distance number) cs
      → AreCountersConsecutive distance number (i + 1 + n) cs
      → AreFewMissing n cs
      → AreTraced (is_some good) n wrong cs
      (good_packets_after (history_after_loss good again wrong)
      (flat_map (notes_of_unit distance number) (flat_map items_of_carrier cs))).packets
  unfolding good_packets_after
  carriers_are_traced good again wrong i n [] last_counter each rising small = refl
  carriers_are_traced good again wrong i n (c ∷ cs) last_counter each rising small =
      elim (split-step good again wrong c cs each.0
      (λ e again w q copy.
      fresh-later good again w q i n last_counter (copy.counter ∙ rising.0)
      (small e).0)) [
        | inl stays ↦
            inl (
              stays.wrong_after_good,
              stays.gone,
              subst (λ (l : GoodPackets). AreTraced (is_some good) (n + 1) stays.wrong_after_good cs
                  l.packets)
                  (sym stays.goods_eq)
                  (carriers_are_traced good stays.again stays.wrong_after_good i (n + 1) cs
                  last_counter each.1
                  (subst (λ (j : ℕ). AreCountersConsecutive distance number j cs) (omega arith)
                  rising.1)
                  (λ e. few-gone n c cs (stays.gone e) (small e).1)),
            )
        | inr comes ↦
            let next = comes.is_packet_copy.counter ∙ rising.0 in
            inr (
              good_packet_after_loss good comes.is_damaged_before_copy comes.copy,
              (good_packets_after (history_after_loss (Some comes.copy) comes.again
                  comes.wrong_after_good)
                  (flat_map (notes_of_unit distance number) (flat_map items_of_carrier
                  cs))).packets,
              ap (λ (l : GoodPackets). l.packets) comes.goods_eq,
              record {
                copy = comes.is_packet_copy;
                there = λ e. (comes.exact e).0;
                first = λ none. first-link good comes.is_damaged_before_copy comes.copy none;
                linked_packet = λ some.
                    linked_packet-copy good i n wrong comes.is_damaged_before_copy c comes.copy
                    last_counter next
                    (λ e. (small e).0) (λ e. (comes.exact e).1) some;
              },
              comes.wrong_after_good,
              λ e. (comes.exact e).2,
              carriers_are_traced (Some comes.copy) comes.again comes.wrong_after_good (i + 1 + n) 0
                  cs next
                  each.1
                  (subst (λ (j : ℕ). AreCountersConsecutive distance number j cs) (omega arith)
                  rising.1)
                  (λ e. (omega arith, few-there n c cs (comes.exact e).0 (small e).1)),
            )
      ]
