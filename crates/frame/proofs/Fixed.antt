-- Document 01's fixed values, all together, computed. Assumes nothing.
use mathlib.Core.Path.{refl}
use Rattle.bits.specs.Bits.{bit_at, bits_at}
use Rattle.crc.specs.Crc.{shift, byte_in, crc_of}
use Rattle.syntax.specs.Elements.{written}
use Rattle.syntax.specs.Reads.{fits, read_of, raw_of}
use Rattle.tables.specs.Codes.{snr_offset, fine_of, snr_of}
use Rattle.walks.specs.Walk.{width, cost, counted, mantissa_of, walk_codes, walk_of}
use Rattle.walks.specs.Row.{item_of, row_from}
use Rattle.aht.specs.Aht.{read_on, refuse_on, tag_on, times, vector_width, gaq_width, gained_on, mantissa_on, gain_of, bin_on, count_active, walk_on, composite_on, word_on, bins_on, mode_on, aht_of}
use Rattle.exponents.specs.Set.{size_of, group_count, all_digits, running, outside, spread}
use Rattle.exponents.specs.Reads.{group_of, groups_of, set_of}
use Rattle.probe.specs.Probe.{rate, words_of, ac3_of, eac3_of, probe_of}
use Rattle.frame.specs.Fixed.{FixedValues}

pub fixed_values : FixedValues
unfolding row_from item_of walk_of walk_codes mantissa_of cost counted width
    set_of groups_of group_of size_of group_count all_digits running outside spread read_of fits written bits_at bit_at
    crc_of byte_in shift snr_of fine_of snr_offset
    aht_of mode_on bins_on walk_on bin_on times mantissa_on gained_on word_on composite_on tag_on refuse_on read_on raw_of count_active gain_of gaq_width vector_width
    probe_of ac3_of eac3_of words_of rate
fixed_values = (refl, (refl, (refl, (refl, (refl, (refl, (refl, (refl, (refl, (refl, (refl, (refl, (refl, (refl, (refl, (refl, tt))))))))))))))))
