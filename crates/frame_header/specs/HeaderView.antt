-- A header's fields as contracts see them, and back.
use Rattle.frame_header.specs.{Fields.HeaderFields, declared.header.Header.TheInside.Inside}

-- the fields of the code's header
abbrev pub header_view : Inside → HeaderFields
header_view h = record {
  version = h.version;
  protected = h.protected;
  slot = h.slot;
  frequency_index = h.frequency_index;
  private_bit = h.private_bit;
  mode = h.mode;
  mode_extension = h.mode_extension;
  copyright = h.copyright;
  original = h.original;
  emphasis = h.emphasis;
}

-- the code's header with these fields
abbrev pub header_inside : HeaderFields → Inside
header_inside h = record {
  version = h.version;
  protected = h.protected;
  slot = h.slot;
  frequency_index = h.frequency_index;
  private_bit = h.private_bit;
  mode = h.mode;
  mode_extension = h.mode_extension;
  copyright = h.copyright;
  original = h.original;
  emphasis = h.emphasis;
}
