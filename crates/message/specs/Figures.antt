-- Two messages that were worked by hand.
use Rattle.std.specs.Prelude.{◌≡◌, true, [], ◌∷◌, Some, Ok}
use Rattle.address.specs.declared.labels.Label.{Label}
use Rattle.address.specs.Address.{subsystem_of}
use Rattle.message.specs.declared.messages.Form.TheVariants.{Udt, Xudt}
use Rattle.message.specs.Options.{segmentation_found}
use Rattle.message.specs.Read.{message_body}

-- a UDT to subsystem 8 from subsystem 6
abbrev pub UdtFigure : Type 0
UdtFigure =
    ((l : Label) →
    message_body l (0x09 ∷ 0x00 ∷ 0x03 ∷ 0x05 ∷ 0x07 ∷ 0x02 ∷ 0x42 ∷ 0x08 ∷ 0x02 ∷ 0x42 ∷ 0x06 ∷ 0x03 ∷ 0xA1 ∷ 0xA2 ∷ 0xA3 ∷ [])
    ≡ Ok (record { label = l; form = Udt 0; called = 0x42 ∷ 8 ∷ []; calling = 0x42 ∷ 6 ∷ []; «data» = 0xA1 ∷ 0xA2 ∷ 0xA3 ∷ []; options = [] }))
    × (subsystem_of (0x42 ∷ 8 ∷ []) ≡ Some 8) × (subsystem_of (0x42 ∷ 6 ∷ []) ≡ Some 6)

-- a first piece, of which one more remains, under reference 7
abbrev pub PieceFigure : Type 0
PieceFigure =
    ((l : Label) →
    message_body l (0x11 ∷ 0x01 ∷ 0x0F ∷ 0x04 ∷ 0x06 ∷ 0x08 ∷ 0x0A ∷ 0x02 ∷ 0x42 ∷ 0x08 ∷ 0x02 ∷ 0x42 ∷ 0x06 ∷ 0x02 ∷ 0xD1 ∷ 0xD2 ∷ 0x10 ∷ 0x04 ∷ 0x81 ∷ 0x07 ∷ 0x00 ∷ 0x00 ∷ 0x00 ∷ [])
    ≡ Ok (record { label = l; form = Xudt 1 15; called = 0x42 ∷ 8 ∷ []; calling = 0x42 ∷ 6 ∷ []; «data» = 0xD1 ∷ 0xD2 ∷ []; options = 0x10 ∷ 0x04 ∷ 0x81 ∷ 0x07 ∷ 0x00 ∷ 0x00 ∷ 0x00 ∷ [] }))
    × (segmentation_found (0x10 ∷ 0x04 ∷ 0x81 ∷ 0x07 ∷ 0x00 ∷ 0x00 ∷ 0x00 ∷ []) ≡ Some (record { first = true; class = 0; remaining = 1; reference = 7 }))
