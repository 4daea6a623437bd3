-- The fields of a packed word are those that were packed.
use Rattle.std.proofs.Common.{◌≡◌, ℕ, ◌+◌, ◌*◌, ◌/◌, ◌%◌, ◌^◌, ◌<◌, ◌≤◌, Some, None, refl, sym, ap, ◌∙◌, arith, lit≤}
use Rattle.std.proofs.lemmas.Nat.{div-mul-add, mod-mul-add}
use Rattle.mesh_gen.specs.declared.port.Port.{Port}
use Rattle.mesh_gen.specs.declared.port.Port.TheVariants.{L, E, W, N, S}
use Rattle.mesh_gen.specs.Ports.{port_number}
use Rattle.report_text.specs.declared.entry.Entry.{Entry}
use Rattle.report_text.specs.declared.event.Event.{Event}
use Rattle.report_text.specs.declared.event.Event.TheVariants.{Tick, Core, Inject, Post, Take, Eject, Send, Hop, DataHop, DataEject}
use Rattle.report_text.specs.declared.operands.Fields.{Fields}
use Rattle.report_text.specs.Events.{event_form, IsWithinLimits}
use Rattle.report_text.specs.Entry.{fields_of, packed_fields, packed, IsValid}
use Rattle.report_text.specs.Unpacking.{port_numbered, event_numbered, entry_near}

port_numbered-port_number : (p : Port) → port_numbered (port_number p) ≡ Some p
port_numbered-port_number L = refl
port_numbered-port_number E = refl
port_numbered-port_number W = refl
port_numbered-port_number N = refl
port_numbered-port_number S = refl

port_number-le : (p : Port) → port_number p ≤ 4
port_number-le L = lit≤ tt
port_number-le E = lit≤ tt
port_number-le W = lit≤ tt
port_number-le N = lit≤ tt
port_number-le S = lit≤ tt

-- an event is that of its number and its fields
event_numbered-form : (e : Event) → event_numbered (event_form e).number (fields_of (event_form e).operands) ≡ Some e
event_numbered-form Tick = refl
event_numbered-form (Core t) = refl
event_numbered-form (Inject t) = refl
event_numbered-form (Post t) = refl
event_numbered-form (Take t) = refl
event_numbered-form (Eject t) = refl
event_numbered-form (Send t) = refl
event_numbered-form (Hop r port slot out) = rw (port_numbered-port_number port, port_numbered-port_number out) refl
event_numbered-form (DataHop r port slot) = rw (port_numbered-port_number port) refl
event_numbered-form (DataEject r port slot) = rw (port_numbered-port_number port) refl

-- the fields fit
record Fit (f : Fields) : Type 0 where
  tile : f.tile < 64
  port : f.port < 8
  slot : f.slot < 16
  out : f.out < 8

number-lt : (e : Event) → (event_form e).number < 16
number-lt Tick = omega arith
number-lt (Core t) = omega arith
number-lt (Inject t) = omega arith
number-lt (Post t) = omega arith
number-lt (Take t) = omega arith
number-lt (Eject t) = omega arith
number-lt (Send t) = omega arith
number-lt (Hop r port slot out) = omega arith
number-lt (DataHop r port slot) = omega arith
number-lt (DataEject r port slot) = omega arith

fields_fit : (e : Event) → IsWithinLimits e → Fit (fields_of (event_form e).operands)
fields_fit Tick w = record { tile = omega arith; port = omega arith; slot = omega arith; out = omega arith }
fields_fit (Core t) w = record { tile = omega arith; port = omega arith; slot = omega arith; out = omega arith }
fields_fit (Inject t) w = record { tile = omega arith; port = omega arith; slot = omega arith; out = omega arith }
fields_fit (Post t) w = record { tile = omega arith; port = omega arith; slot = omega arith; out = omega arith }
fields_fit (Take t) w = record { tile = omega arith; port = omega arith; slot = omega arith; out = omega arith }
fields_fit (Eject t) w = record { tile = omega arith; port = omega arith; slot = omega arith; out = omega arith }
fields_fit (Send t) w = record { tile = omega arith; port = omega arith; slot = omega arith; out = omega arith }
fields_fit (Hop r port slot out) w =
    record { tile = omega (arith, w.0); port = omega (arith, port_number-le port); slot = omega (arith, w.1); out = omega (arith, port_number-le out) }
fields_fit (DataHop r port slot) w =
    record { tile = omega (arith, w.0); port = omega (arith, port_number-le port); slot = omega (arith, w.1); out = omega arith }
fields_fit (DataEject r port slot) w =
    record { tile = omega (arith, w.0); port = omega (arith, port_number-le port); slot = omega (arith, w.1); out = omega arith }

-- a field between what is above it and what is below
field : (high f low unit count : ℕ) → low < unit → f < count → ((high * count + f) * unit + low) / unit % count ≡ f
field high f low unit count below fits = ap (λ (n : ℕ). n % count) (div-mul-add (high * count + f) unit low below) ∙ mod-mul-add high count f fits

-- the same, of a number that is that sum
field_of : (word high f low unit count : ℕ) → word ≡ (high * count + f) * unit + low → low < unit → f < count → word / unit % count ≡ f
field_of word high f low unit count e below fits = rw e (field high f low unit count below fits)

tile_field : (cores by kind : ℕ) (f : Fields) → Fit f → packed_fields cores by kind f / 2 ^ 10 % 64 ≡ f.tile
tile_field cores by kind f fit =
    field_of (packed_fields cores by kind f) (cores * 2 ^ 10 + by * 2 ^ 4 + kind) f.tile (f.port * 2 ^ 7 + f.slot * 2 ^ 3 + f.out) (2 ^ 10) 64
    (omega arith) (omega (arith, fit.port, fit.slot, fit.out)) fit.tile

port_field : (cores by kind : ℕ) (f : Fields) → Fit f → packed_fields cores by kind f / 2 ^ 7 % 8 ≡ f.port
port_field cores by kind f fit =
    field_of (packed_fields cores by kind f) (cores * 2 ^ 16 + by * 2 ^ 10 + kind * 2 ^ 6 + f.tile) f.port (f.slot * 2 ^ 3 + f.out) (2 ^ 7) 8
    (omega arith) (omega (arith, fit.slot, fit.out)) fit.port

slot_field : (cores by kind : ℕ) (f : Fields) → Fit f → packed_fields cores by kind f / 2 ^ 3 % 16 ≡ f.slot
slot_field cores by kind f fit =
    field_of (packed_fields cores by kind f) (cores * 2 ^ 19 + by * 2 ^ 13 + kind * 2 ^ 9 + f.tile * 2 ^ 3 + f.port) f.slot f.out (2 ^ 3) 16
    (omega arith) (omega (arith, fit.out)) fit.slot

out_field : (cores by kind : ℕ) (f : Fields) → Fit f → packed_fields cores by kind f % 8 ≡ f.out
out_field cores by kind f fit =
    let high = cores * 2 ^ 23 + by * 2 ^ 17 + kind * 2 ^ 13 + f.tile * 2 ^ 7 + f.port * 2 ^ 4 + f.slot in
    let split : packed_fields cores by kind f ≡ high * 8 + f.out = omega arith in
    rw split (mod-mul-add high 8 f.out fit.out)

low_fits : (f : Fields) → Fit f → f.tile * 2 ^ 10 + f.port * 2 ^ 7 + f.slot * 2 ^ 3 + f.out < 2 ^ 16
low_fits f fit = omega (arith, fit.tile, fit.port, fit.slot, fit.out)

kind_field : (cores by kind : ℕ) (f : Fields) → Fit f → kind < 16 → packed_fields cores by kind f / 2 ^ 16 % 16 ≡ kind
kind_field cores by kind f fit h =
    field_of (packed_fields cores by kind f) (cores * 2 ^ 6 + by) kind (f.tile * 2 ^ 10 + f.port * 2 ^ 7 + f.slot * 2 ^ 3 + f.out) (2 ^ 16) 16
    (omega arith) (low_fits f fit) h

by_field : (cores by kind : ℕ) (f : Fields) → Fit f → kind < 16 → by < 64 → packed_fields cores by kind f / 2 ^ 20 % 64 ≡ by
by_field cores by kind f fit h b =
    field_of (packed_fields cores by kind f) cores by (kind * 2 ^ 16 + (f.tile * 2 ^ 10 + f.port * 2 ^ 7 + f.slot * 2 ^ 3 + f.out)) (2 ^ 20) 64
    (omega arith) (omega (arith, low_fits f fit, h)) b

cores_field : (cores by kind : ℕ) (f : Fields) → Fit f → kind < 16 → by < 64 → cores < 64 → packed_fields cores by kind f / 2 ^ 26 % 64 ≡ cores
cores_field cores by kind f fit h b c =
    field_of (packed_fields cores by kind f) 0 cores (by * 2 ^ 20 + kind * 2 ^ 16 + (f.tile * 2 ^ 10 + f.port * 2 ^ 7 + f.slot * 2 ^ 3 + f.out)) (2 ^ 26) 64
    (omega arith) (omega (arith, low_fits f fit, h, b)) c

-- a valid entry is found in its packed word
pub entry_near-packed : (entry : Entry) → IsValid entry → entry_near (packed entry) ≡ Some entry
entry_near-packed entry valid =
    let form = event_form entry.event in
    let f = fields_of form.operands in
    let fit = fields_fit entry.event valid.event in
    let k = number-lt entry.event in
    let b : entry.by < 64 = omega (arith, valid.tile) in
    let c : entry.cores < 64 = omega (arith, valid.cores) in
    rw (
      kind_field entry.cores entry.by form.number f fit k,
      tile_field entry.cores entry.by form.number f fit,
      port_field entry.cores entry.by form.number f fit,
      slot_field entry.cores entry.by form.number f fit,
      out_field entry.cores entry.by form.number f fit,
      by_field entry.cores entry.by form.number f fit k b,
      cores_field entry.cores entry.by form.number f fit k b c,
      event_numbered-form entry.event,
    ) refl

-- where no entry is found in a word, it is no valid entry's
pub packed-none : (word : ℕ) → entry_near word ≡ None → (entry : Entry) → IsValid entry → packed entry ≡ word → ⊥
packed-none word none entry valid e =
    let found : entry_near word ≡ Some entry = rw (sym e) (entry_near-packed entry valid) in
    absurd (some_none (sym found ∙ none))
  where
    some_none : Some entry ≡ None → ⊥
    some_none h = absurd cc

-- the valid entry that a word is of is the one that is found in it
pub packed-some : (word : ℕ) (near : Entry) → entry_near word ≡ Some near → (entry : Entry) → IsValid entry → packed entry ≡ word → near ≡ entry
packed-some word near some entry valid e =
    let found : entry_near word ≡ Some entry = rw (sym e) (entry_near-packed entry valid) in
    same (sym some ∙ found)
  where
    same : Some near ≡ Some entry → near ≡ entry
    same h = cc

-- the tile that a packed word names
pub tile_named-packed : (entry : Entry) → IsValid entry → packed entry / 2 ^ 20 % 64 ≡ entry.by
tile_named-packed entry valid =
    by_field entry.cores entry.by (event_form entry.event).number (fields_of (event_form entry.event).operands) (fields_fit entry.event valid.event) (number-lt entry.event)
    (omega (arith, valid.tile))
